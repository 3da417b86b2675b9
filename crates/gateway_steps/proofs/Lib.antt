pub mod OneWay
pub mod Keeping
