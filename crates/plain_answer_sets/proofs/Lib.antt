pub mod CutLemmas
pub mod EqualityLemmas
pub mod LeastLemmas
