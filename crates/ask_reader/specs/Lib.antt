pub mod Read
pub mod Own
