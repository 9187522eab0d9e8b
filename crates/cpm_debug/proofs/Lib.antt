pub mod DialogLemmas
pub mod HearingLemmas
pub mod PressLemmas
pub mod SourceLemmas
pub mod TextLemmas
