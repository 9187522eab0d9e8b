pub mod Arguments
pub mod CommandLine
pub mod DiskLine
pub mod HelpWords
pub mod Line
pub mod Options
pub mod Refusals
