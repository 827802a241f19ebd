pub mod Reads
pub mod Found
