pub mod MergeLaws
pub mod MetaLaws
pub mod Refusals
