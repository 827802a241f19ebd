pub mod Tables
pub mod Walk
pub mod Range
pub mod Stage
