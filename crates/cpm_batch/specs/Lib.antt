pub mod Savings
pub mod Held
pub mod Inputs
pub mod Outputs
pub mod Reads
pub mod Sources
