pub mod LimitLaws
pub mod ColumnLaws
