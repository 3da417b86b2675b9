pub mod Chosen
pub mod Dating
pub mod Ending
pub mod Pieces
pub mod Relaying
pub mod SecondKeys
pub mod Told
pub mod Within
