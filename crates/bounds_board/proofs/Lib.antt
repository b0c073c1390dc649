pub mod RuleLemmas
pub mod ViewLemmas
pub mod MaskLemmas
pub mod ReadLemmas
pub mod ReportLemmas
pub mod LastLemmas
