pub mod Laying
pub mod Held
