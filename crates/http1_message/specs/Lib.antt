pub mod Cookies
pub mod Encodings
pub mod Request
pub mod RequestViews
pub mod Response
pub mod ResponseViews
