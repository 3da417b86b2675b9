pub mod Boundary
pub mod Choices
pub mod Answers
pub mod Whole
