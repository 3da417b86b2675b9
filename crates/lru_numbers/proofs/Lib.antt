pub mod RestLaws
pub mod PlaceLaws
pub mod SwapLaws
pub mod FreeLaws
pub mod NameLaws
pub mod CountLaws
