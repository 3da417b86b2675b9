pub mod Cases
pub mod Joined
pub mod Pieces
pub mod Unquoted
