pub mod Chunked
pub mod Frames
pub mod Parts
pub mod Pieces
pub mod Runs
pub mod Sent
