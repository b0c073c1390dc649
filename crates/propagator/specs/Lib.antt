pub mod Watched
pub mod Fixpoint
pub mod Standings
pub mod Laws
pub mod ProgressLaws
