pub mod BoardLemmas
pub mod ConsequenceLemmas
pub mod MachineLemmas
