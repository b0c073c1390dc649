pub mod TotalLemmas
pub mod QuietLemmas
pub mod PartLemmas
pub mod AnswerLemmas
pub mod SearchLemmas
