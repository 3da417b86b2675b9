pub mod ReadBack
pub mod SetSteps
