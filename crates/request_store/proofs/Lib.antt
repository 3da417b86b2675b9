mod PurgeLaws
pub mod LookLaws
pub mod BeginLaws
pub mod FinishLaws
