pub mod Faults
pub mod Keys
pub mod Misses
pub mod Parts
pub mod Pasts
pub mod Repeats
pub mod Shares
