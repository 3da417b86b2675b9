pub mod Answers
pub mod Fetches
pub mod Parts
pub mod Reading
pub mod Relays
pub mod Tails
