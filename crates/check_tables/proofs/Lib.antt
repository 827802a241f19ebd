pub mod Laws
pub mod Faults
pub mod Even
pub mod Marks
