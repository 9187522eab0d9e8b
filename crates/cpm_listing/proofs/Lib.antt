pub mod RowLengths
pub mod RowLengthsZ80
pub mod RowLengths8080
