pub mod Parts
pub mod Minimality
pub mod Search
