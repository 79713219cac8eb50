pub mod Holding
pub mod Leading
