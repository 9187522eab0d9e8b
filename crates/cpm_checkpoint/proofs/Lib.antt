pub mod Appending
pub mod Fields
pub mod Fitting
pub mod SessionLoop
pub mod Sessions
