pub mod Filling
pub mod Drafts
pub mod Chains
pub mod Within
