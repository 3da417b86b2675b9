pub mod Tables
pub mod BelowLaws
pub mod ChangeLaws
pub mod WaitLaws
pub mod GivenBack
pub mod EndLaws
pub mod ReleaseLaws
pub mod Taken
