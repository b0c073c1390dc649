pub mod Answers
pub mod Budget
pub mod Agreed
pub mod Progress
pub mod Way
pub mod Ending
