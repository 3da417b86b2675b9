pub mod HeadLaws
pub mod HeadLines
pub mod HeadLoop
pub mod HeadWriting
pub mod InternalLaws
pub mod InternalWriting
pub mod MapLines
