-- Lists of units: how many there are, and the histories of stores that counted them.
pub mod UnitLemmas
pub mod RowLemmas
pub mod HistoryLemmas
