pub mod Timed
pub mod Rows
pub mod Counting
pub mod Faults
pub mod Zipped
pub mod Spans
pub mod Marks
