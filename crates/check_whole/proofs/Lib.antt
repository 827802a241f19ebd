pub mod Either
pub mod Narrow
