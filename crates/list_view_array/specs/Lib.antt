pub mod Views
pub mod ViewLaws
