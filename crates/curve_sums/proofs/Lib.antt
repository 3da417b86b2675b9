pub mod Fronts
pub mod Blocks
pub mod Stack
