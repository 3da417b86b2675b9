pub mod Looks
pub mod Queues
pub mod Rows
pub mod Worlds
