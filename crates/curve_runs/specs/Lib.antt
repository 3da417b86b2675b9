pub mod Runs
pub mod Sums
pub mod Counts
