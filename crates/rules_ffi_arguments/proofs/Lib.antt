pub mod Ends
pub mod Saying
pub mod Readied
