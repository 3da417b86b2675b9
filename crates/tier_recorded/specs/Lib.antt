pub mod Notes
pub mod Seen
pub mod Histories
pub mod Openings
pub mod Seats
pub mod Recorded
pub mod Hits
pub mod Codes
