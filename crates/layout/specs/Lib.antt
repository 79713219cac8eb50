pub mod Bits
pub mod Words
pub mod Spans
pub mod Marks
pub mod Needs
pub mod Natives
pub mod NativeLaws
pub mod Laws
