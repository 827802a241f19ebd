pub mod Coding
pub mod Fields
pub mod Reading
