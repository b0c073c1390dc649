pub mod GroupLemmas
pub mod TruthLemmas
pub mod OutLemmas
pub mod IntoLemmas
pub mod ModelLemmas
pub mod RuleLemmas
pub mod FitsLemmas
pub mod PairLemmas
