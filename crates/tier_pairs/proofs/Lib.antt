pub mod Doing
pub mod Comparing
pub mod Both
