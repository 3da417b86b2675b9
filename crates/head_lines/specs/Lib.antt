pub mod ErrorNames
pub mod Lines
