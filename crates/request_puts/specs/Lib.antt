pub mod Response
pub mod Put
pub mod Texts
