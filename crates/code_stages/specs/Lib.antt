pub mod Stages
pub mod Settling
