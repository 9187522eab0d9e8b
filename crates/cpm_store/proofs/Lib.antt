pub mod LawLemmas
pub mod LogLemmas
pub mod WriteLemmas
