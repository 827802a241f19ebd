pub mod Late
pub mod Steps
pub mod Worked
