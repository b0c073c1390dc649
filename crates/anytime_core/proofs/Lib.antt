pub mod BitLemmas
pub mod TruthLemmas
pub mod PairLemmas
pub mod MachineLemmas
pub mod LaterLemmas
pub mod ShowingLemmas
pub mod StepLemmas
