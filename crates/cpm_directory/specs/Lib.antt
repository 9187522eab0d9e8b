pub mod Bits
pub mod Matching
pub mod Directory
pub mod Login
pub mod CommandLine
pub mod WellFormed
pub mod Laws
