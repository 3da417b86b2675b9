pub mod ReadingLaws
pub mod HeadLaws
pub mod LengthLaws
pub mod PositionLaws
pub mod ParseLaws
pub mod StageLaws
pub mod SplitLaws
