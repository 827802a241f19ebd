pub mod InOrder
pub mod Reading
pub mod Found
pub mod Built
