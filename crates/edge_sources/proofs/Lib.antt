pub mod Inside
mod Words
