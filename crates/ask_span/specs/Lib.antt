pub mod Reading
pub mod Graph
