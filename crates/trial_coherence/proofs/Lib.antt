pub mod ImportLemmas
