pub mod Parts
pub mod Leading
