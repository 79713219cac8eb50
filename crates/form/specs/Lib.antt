pub mod Forms
pub mod Shapes
pub mod Laws
pub mod Examples
