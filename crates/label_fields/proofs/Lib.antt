pub mod Marks
pub mod Tabling
pub mod Choice
