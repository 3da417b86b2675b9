pub mod Counted
pub mod Codes
pub mod Replays
