pub mod Told
pub mod Scene
