pub mod Steps
pub mod Loads
pub mod Finds
pub mod Peaks
pub mod Worked
pub mod Cells
