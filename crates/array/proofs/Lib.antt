pub mod Ties
pub mod ListLaws
mod OffsetWords
