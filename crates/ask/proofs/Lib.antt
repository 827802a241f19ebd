pub mod Joined
pub mod Each
