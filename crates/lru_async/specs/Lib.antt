pub mod Hashes
pub mod Faults
pub mod Picks
pub mod FaultTexts
pub mod Saving
