pub mod Ends
pub mod Leading
