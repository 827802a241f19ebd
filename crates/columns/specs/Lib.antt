pub mod Lists
pub mod Columns
pub mod Ranks
pub mod Loans
pub mod Numbers
