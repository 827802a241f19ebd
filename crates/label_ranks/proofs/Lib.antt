pub mod Uses
pub mod Ranking
pub mod Ranks
