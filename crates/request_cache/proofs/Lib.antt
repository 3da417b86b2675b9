pub mod PhaseLaws
pub mod EndLaws
pub mod FinishLaws
pub mod FreshLaws
pub mod RenewLaws
