pub mod Tests
pub mod Fitting
pub mod Enough
pub mod Compose
