pub mod AsmLemmas
pub mod AsmListingLemmas
pub mod DebugLemmas
pub mod InputLemmas
pub mod ListLemmas
pub mod ProgramLemmas
pub mod SavedTextLemmas
pub mod TailLemmas
