pub mod Decoding
pub mod Named
pub mod Sizes
pub mod Stated
