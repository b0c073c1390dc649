-- What is due and fails is refused so; and each text has one outcome.
pub mod FaultPieces
pub mod Follows
pub mod DueFields
pub mod RuleFollows
pub mod WholeFollows
pub mod OneOutcome
pub mod RefusalLemmas
pub mod OutcomeLaw
