pub mod Left
pub mod Policies
