pub mod Bare
pub mod Drawing
pub mod Present
pub mod Updated
