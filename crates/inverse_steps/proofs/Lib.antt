pub mod Over
pub mod Begun
pub mod Entered
