pub mod Pieces
pub mod Start
