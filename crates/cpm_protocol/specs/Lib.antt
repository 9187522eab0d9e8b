pub mod Fields
pub mod Bytes
pub mod Requests
pub mod Words
pub mod Replies
pub mod Leaves
pub mod Asking
pub mod Flat
