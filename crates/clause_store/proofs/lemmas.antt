pub mod Units
pub mod Progress
pub mod Trails
