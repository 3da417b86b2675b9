pub mod Slots
pub mod Links
pub mod Columns
pub mod Lends
pub mod BothEnds
pub mod FaultTexts
