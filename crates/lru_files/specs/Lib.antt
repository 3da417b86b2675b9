pub mod Folder
pub mod Load
pub mod MemFolder
pub mod Names
pub mod Save
pub mod TestFolder
pub mod Told
