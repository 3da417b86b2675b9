pub mod Hashed
pub mod Names
pub mod Parts
pub mod Places
pub mod FaultTexts
