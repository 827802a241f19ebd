pub mod Spans
pub mod FirstEdge
pub mod Escapes
pub mod Built
pub mod WeakRows
