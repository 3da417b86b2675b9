pub mod Changed
pub mod Held
pub mod Places
pub mod Purged
pub mod Told
pub mod Walks
