pub mod FewStores
