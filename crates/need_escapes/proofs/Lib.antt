pub mod Layers
pub mod Capped
pub mod Uncoded
pub mod Theorems
