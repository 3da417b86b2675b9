pub mod SlotLaws
pub mod KeptLaws
pub mod BuiltLaws
pub mod WeightLaws
