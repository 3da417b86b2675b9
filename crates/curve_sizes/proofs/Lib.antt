pub mod TableLaws
pub mod CellPlaces
pub mod FedLaws
pub mod Feeding
pub mod EntryLaws
pub mod FaultLaws
