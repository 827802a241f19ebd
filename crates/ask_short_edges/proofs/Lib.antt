pub mod Replies
pub mod Whole
