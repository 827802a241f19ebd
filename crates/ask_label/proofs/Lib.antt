pub mod Labels
pub mod Built
pub mod NoObject
