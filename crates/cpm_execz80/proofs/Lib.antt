pub mod BitLemmas
pub mod FewStores
