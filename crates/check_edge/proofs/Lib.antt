pub mod Firsts
pub mod Labels
pub mod Targets
