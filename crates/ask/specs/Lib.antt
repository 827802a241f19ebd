pub mod Answers
pub mod Each
