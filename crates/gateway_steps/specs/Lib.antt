pub mod Calls
pub mod Phases
pub mod Invariant
pub mod Questions
pub mod Runs
pub mod Sides
pub mod Steps
