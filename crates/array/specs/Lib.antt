pub mod Windows
pub mod Lists
pub mod Offsets
pub mod ItemLaws
