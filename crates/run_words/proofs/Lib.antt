mod ChoiceLemmas
mod OptionLemmas
mod OrderLemmas
