pub mod Closing
pub mod Passing
pub mod Releasing
pub mod Sending
