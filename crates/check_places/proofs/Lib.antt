pub mod Counting
pub mod Bound
pub mod Placed
pub mod Routes
