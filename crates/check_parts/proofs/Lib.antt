pub mod Lists
pub mod Faults
pub mod Chain
pub mod Handed
pub mod Theorems
