pub mod EndingLemmas
pub mod RowLemmas
pub mod AcceptedLemmas
