pub mod Heap
pub mod Places
pub mod PlaceLaws
