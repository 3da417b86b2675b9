pub mod Forward
pub mod Purge
pub mod Send
