pub mod DriveLemmas
pub mod SectorLemmas
pub mod MarkLemmas
pub mod VectorLemmas
pub mod CallLemmas
pub mod SearchLemmas
