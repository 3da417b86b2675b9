pub mod Digits
pub mod Joined
pub mod Numbered
pub mod Ranges
pub mod Reading
pub mod Running
pub mod Sending
