pub mod Columns
pub mod Places
pub mod Indexes
pub mod Chains
pub mod Linked
pub mod Walks
pub mod Ends
pub mod Calls
