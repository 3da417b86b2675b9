pub mod Fresh
pub mod Moments
