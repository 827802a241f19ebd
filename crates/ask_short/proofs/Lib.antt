pub mod Plain
pub mod Found
pub mod Whole
pub mod Built
