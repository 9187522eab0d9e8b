pub mod TypistLemmas
