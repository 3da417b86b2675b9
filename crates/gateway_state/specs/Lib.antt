pub mod AtTier
pub mod Frames
pub mod Openings
pub mod States
