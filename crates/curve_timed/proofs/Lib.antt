pub mod Feeding
pub mod FreshRows
pub mod MarkLaws
