pub mod Reasons
pub mod Capacity
