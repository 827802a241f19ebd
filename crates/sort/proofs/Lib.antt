pub mod Basics
pub mod Sorted
pub mod Repeats
pub mod Unstable
pub mod Thinning
pub mod Run
