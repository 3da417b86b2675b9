pub mod Calls
pub mod Closures
pub mod Draws
pub mod Records
pub mod Refusals
