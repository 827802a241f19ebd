pub mod Scales
pub mod Hinting
pub mod Theorems
