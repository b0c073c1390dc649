pub mod Gives
pub mod Weighed
pub mod Rows
pub mod Sums
pub mod Waits
pub mod Places
pub mod Kept
