pub mod Keys
pub mod Others
pub mod Waits
