pub mod SectorLemmas
pub mod GeometryLemmas
pub mod RecordLemmas
pub mod JoinedLemmas
