-- Lemmas by topic.
pub mod Base
pub mod Entailed
