pub mod Verdict
pub mod Counts
pub mod Zeros
pub mod Theorems
