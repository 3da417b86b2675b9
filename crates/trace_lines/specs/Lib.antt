pub mod Lines
pub mod Texts
pub mod Digits
pub mod Trees
