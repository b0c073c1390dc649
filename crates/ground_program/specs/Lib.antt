pub mod Program
pub mod Meaning
pub mod Bounds
pub mod Models
pub mod Validity
pub mod Held
