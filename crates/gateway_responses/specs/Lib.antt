pub mod Bodies
pub mod Confirms
pub mod Heads
pub mod Responses
