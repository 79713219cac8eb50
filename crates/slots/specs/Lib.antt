pub mod Bounds
pub mod Slots
pub mod Replies
pub mod Trials
