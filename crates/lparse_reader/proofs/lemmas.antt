-- Lemmas by topic.
pub mod Pieces
pub mod Refusing
pub mod Writing
pub mod Calls
