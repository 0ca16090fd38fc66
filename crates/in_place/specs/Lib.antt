pub mod Replies
pub mod Forms
