pub mod OneHost
pub mod Starting
pub mod Looking
