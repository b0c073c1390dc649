-- What the loops and the answers of the reader carry.
pub mod LoopLemmas
pub mod ParseLemmas
pub mod SourceLemmas
