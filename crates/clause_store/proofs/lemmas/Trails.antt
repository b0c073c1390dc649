-- What stays on a trail, and what level 0 means.
pub mod StillLemmas
pub mod ZeroLemmas
pub mod FollowedLemmas
