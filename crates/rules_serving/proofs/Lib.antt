pub mod Copied
pub mod Written
pub mod Sending
pub mod AtOnce
pub mod Stored
