pub mod Lines
pub mod Entries
pub mod Heads
pub mod Laws
