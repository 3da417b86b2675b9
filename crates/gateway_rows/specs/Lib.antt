pub mod Bodies
pub mod Looks
pub mod Responses
pub mod Tables
pub mod Waits
