pub mod Whole
pub mod Asked
pub mod Joined
