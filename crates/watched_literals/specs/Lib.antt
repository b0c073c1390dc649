pub mod Chains
pub mod Pends
pub mod Standings
pub mod Visits
pub mod Watching
pub mod Rooms
pub mod Walking
pub mod Laying
