pub mod MergeLemmas
pub mod NumberLemmas
