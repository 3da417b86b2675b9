pub mod Folding
pub mod Injective
pub mod Looking
