pub mod AssumedLemmas
