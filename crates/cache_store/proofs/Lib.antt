mod AgreeLaws
pub mod BodyLaws
mod FreshLaws
pub mod LeftLaws
mod LookLaws
mod SameLaws
pub mod WholeLaws
