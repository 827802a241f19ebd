pub mod Half
pub mod Asks
