pub mod RowLemmas
pub mod SeenLemmas
pub mod AnsiLemmas
pub mod PaintLemmas
pub mod ShownLemmas
pub mod KeyLemmas
mod Walks
pub mod OutputLemmas
pub mod PictureLemmas
pub mod WipeLemmas
pub mod FitLemmas
pub mod PaintedLemmas
