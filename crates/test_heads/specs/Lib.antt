pub mod ByStatus
