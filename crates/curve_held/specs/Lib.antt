pub mod Faults
pub mod Held
pub mod State
pub mod Walks
