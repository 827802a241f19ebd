pub mod Whole
pub mod Theorems
