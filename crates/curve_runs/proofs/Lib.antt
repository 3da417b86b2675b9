pub mod RunLaws
pub mod CountLaws
pub mod TallyLaws
pub mod EntryRuns
