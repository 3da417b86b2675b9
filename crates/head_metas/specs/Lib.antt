pub mod FaultTexts
pub mod Head
pub mod HeadReading
pub mod Internal
pub mod InternalReading
pub mod Versions
