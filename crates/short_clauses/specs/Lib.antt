pub mod Short
pub mod Shareable
pub mod Sorting
