pub mod Append
pub mod Held
pub mod Account
pub mod Object
pub mod Raw
