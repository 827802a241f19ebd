pub mod Walked
pub mod Readable
pub mod Lowest
pub mod Passes
pub mod Spanning
pub mod Quick
