pub mod Single
pub mod Answers
pub mod Listed
