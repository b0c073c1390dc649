pub mod LegalLemmas
pub mod TextLemmas
pub mod WritingLemmas
pub mod FactLemmas
