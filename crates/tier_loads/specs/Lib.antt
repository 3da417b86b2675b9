pub mod Calls
pub mod Holds
pub mod Requests
pub mod Uniform
