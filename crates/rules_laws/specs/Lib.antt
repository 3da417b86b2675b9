pub mod Alike
pub mod Asking
pub mod Fetched
pub mod Parts
pub mod Written
