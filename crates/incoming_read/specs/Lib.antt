pub mod Unread
pub mod Steps
