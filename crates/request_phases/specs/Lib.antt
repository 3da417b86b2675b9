pub mod Phases
pub mod HitStatuses
pub mod Digests
pub mod Locks
pub mod Releases
pub mod Waits
