-- What stands in a text is read as such: numbers, fields, entries, rules, the whole.
pub mod TokenLemmas
pub mod NumberPieces
pub mod RowPieces
pub mod FieldPieces
pub mod EntryPieces
pub mod BodyPieces
pub mod RulePieces
pub mod RuleAgain
pub mod WholePieces
