pub mod Plain
pub mod Whole
pub mod Built
