pub mod State
pub mod Assumed
