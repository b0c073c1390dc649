pub mod Client
pub mod Offer
