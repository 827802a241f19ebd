pub mod Chain
pub mod Sound
pub mod Join
pub mod Theorems
