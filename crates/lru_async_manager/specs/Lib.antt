pub mod Texts
pub mod Faults
pub mod FaultTexts
pub mod Files
