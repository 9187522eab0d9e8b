pub mod BlankLemmas
pub mod EntryLemmas
pub mod FaultLemmas
pub mod FindLemmas
pub mod NameLemmas
pub mod RuleLemmas
pub mod StepLemmas
