pub mod LineLaws
pub mod EntryLaws
pub mod TextLaws
