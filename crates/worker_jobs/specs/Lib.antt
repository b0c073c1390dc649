pub mod Job
pub mod Gain
pub mod Spent
pub mod Laws
