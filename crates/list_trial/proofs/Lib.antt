pub mod Rising
pub mod Leading
