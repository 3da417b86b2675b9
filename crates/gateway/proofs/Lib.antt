pub mod Decided
pub mod Ends
pub mod Everyone
pub mod LookRows
