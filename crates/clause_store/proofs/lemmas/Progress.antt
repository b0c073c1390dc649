-- How far a search has come on a trail.
pub mod CountLemmas
pub mod ProgressLemmas
