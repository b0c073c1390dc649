mod FieldLemmas
mod SetLemmas
mod WordLemmas
mod LineLemmas
mod LoopLemmas
mod TextLemmas
