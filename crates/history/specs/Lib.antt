pub mod Entry
pub mod Moments
pub mod Calls
