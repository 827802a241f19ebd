pub mod Distinct
pub mod Marking
pub mod Theorems
