pub mod CandidateLemmas
pub mod SpentLemmas
