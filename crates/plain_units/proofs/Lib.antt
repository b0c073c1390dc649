pub mod ClosureLemmas
pub mod UnitLemmas
