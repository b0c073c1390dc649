pub mod CallerLemmas
mod WritingLemmas
mod ReadingLemmas
