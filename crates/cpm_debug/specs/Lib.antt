pub mod Debug
pub mod Dialog
pub mod Hearing
pub mod Orders
pub mod Source
