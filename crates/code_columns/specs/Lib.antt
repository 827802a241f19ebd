pub mod Stages
pub mod Finished
