pub mod Placed
pub mod Fields
pub mod Promises
pub mod Nothing
pub mod Built
pub mod NameCount
