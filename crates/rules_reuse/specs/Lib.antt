pub mod Keys
pub mod Laws
pub mod Planning
pub mod Using
pub mod Variants
