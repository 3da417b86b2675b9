pub mod Bare
pub mod Ends
pub mod Hosts
pub mod Ordering
pub mod Reading
