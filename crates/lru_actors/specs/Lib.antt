pub mod Looks
pub mod Messages
pub mod Worlds
pub mod Steps
pub mod FaultTexts
