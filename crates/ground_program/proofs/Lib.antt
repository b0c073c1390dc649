pub mod ModelLemmas
pub mod ValidityLemmas
pub mod MeaningLemmas
pub mod BoundsLemmas
pub mod SetLemmas
