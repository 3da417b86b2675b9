pub mod OneLifetime
pub mod Entries
