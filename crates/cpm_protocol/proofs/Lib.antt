pub mod ByteLemmas
pub mod ReplyLemmas
pub mod FlatLemmas
pub mod AskLemmas
pub mod KeyLemmas
pub mod PutLemmas
