pub mod Counting
pub mod Bound
pub mod Theorems
