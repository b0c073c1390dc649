pub mod BlankLemmas
