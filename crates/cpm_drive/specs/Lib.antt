pub mod Drive
pub mod Judged
pub mod Calls
pub mod Named
pub mod Reads
pub mod Writes
pub mod Laws
