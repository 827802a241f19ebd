pub mod Copying
pub mod Spans
