pub mod Walking
pub mod Parted
pub mod Clean
