pub mod AnswerSets
pub mod Laws
pub mod Looking
pub mod Asked
pub mod Selectors
pub mod Testing
pub mod Searching
pub mod Sharing
