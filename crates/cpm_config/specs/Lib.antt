pub mod Fields
pub mod Entries
pub mod Files
pub mod Rules
