pub mod Places
pub mod TableLaws
pub mod TailLaws
