pub mod Outcomes
pub mod Appending
pub mod Reading
pub mod Pairs
pub mod Tallies
pub mod Bytes
