pub mod ReadingLaws
pub mod SavingLaws
