pub mod Columns
pub mod Sizes
pub mod Times
pub mod Words
