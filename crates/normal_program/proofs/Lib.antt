pub mod RankLemmas
pub mod NormalLemmas
pub mod UniqueLemmas
pub mod RangeLemmas
pub mod lemmas
