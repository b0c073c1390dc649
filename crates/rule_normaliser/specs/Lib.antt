pub mod Merging
pub mod Numbering
pub mod Cause
