pub mod Total
pub mod Pairing
pub mod Kept
pub mod Asking
