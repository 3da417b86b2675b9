pub mod Bound
pub mod Changes
pub mod Store
pub mod Uses
pub mod Writes
