mod MakingLemmas
pub mod ShareableLemmas
