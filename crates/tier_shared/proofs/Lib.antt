pub mod GatherLaws
pub mod Rooms
pub mod CountLaws
pub mod CountedLaws
pub mod CountedRooms
pub mod HitCounts
