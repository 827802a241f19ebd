pub mod Counted
pub mod Entered
pub mod Placed
pub mod Starts
pub mod Inverted
