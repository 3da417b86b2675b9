pub mod EntryLaws
pub mod HashLaws
pub mod RoomLaws
pub mod RowLaws
pub mod WrittenLaws
