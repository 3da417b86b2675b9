pub mod Promise
pub mod Readers
pub mod Draws
pub mod Hits
pub mod Restores
