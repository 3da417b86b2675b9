pub mod Acts
pub mod Asks
pub mod Calls
pub mod Looks
pub mod Purges
pub mod Requested
pub mod Sends
pub mod Waits
