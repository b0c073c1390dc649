-- The canonical text of a program: how it is written, and of which pieces it is a row.
pub mod TextWrites
pub mod TextRows
pub mod TextPrograms
