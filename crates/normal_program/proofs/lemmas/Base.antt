-- Base clauses: what they say, that they are entailed, and what an assignment that meets them is.
pub mod TruthLemmas
pub mod CleanLemmas
pub mod BodyLemmas
pub mod RuleLemmas
pub mod SupportLemmas
pub mod EntailedLemmas
pub mod OverLemmas
pub mod ModelLemmas
