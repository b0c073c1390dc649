-- Clauses that are entailed, and with which selectors they are.
pub mod ChoiceLemmas
pub mod WithoutLemmas
pub mod LoopLemmas
pub mod GroundedLemmas
pub mod WideLemmas
