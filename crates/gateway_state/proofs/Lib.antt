pub mod Agreed
pub mod Finished
pub mod Hits
pub mod Openings
