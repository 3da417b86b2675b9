pub mod Noting
pub mod Folds
pub mod Moments
pub mod Present
pub mod Filled
pub mod Walked
