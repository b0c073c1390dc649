pub mod Bits
pub mod Showing
pub mod Truth
pub mod Knowing
pub mod Actors
pub mod Machine
pub mod Legal
pub mod Laws
