pub mod Response
pub mod Parse
pub mod Positions
pub mod Heads
pub mod Stages
