pub mod Numbers
pub mod BuilderLaws
pub mod NativeLaws
