pub mod Uncoded
