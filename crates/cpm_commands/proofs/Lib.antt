pub mod CountLemmas
pub mod DebugLemmas
pub mod DiskLemmas
pub mod DriveLemmas
pub mod GetLemmas
pub mod ListLemmas
pub mod MessageLemmas
pub mod OutFolderLemmas
pub mod PlanLemmas
pub mod ReplayWordLemmas
pub mod RunLemmas
pub mod TaskLemmas
mod WordLemmas
