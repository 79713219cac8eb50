pub mod WordSums
pub mod Counting
pub mod SpanLaws
pub mod OneBit
pub mod Sameness
pub mod NeedLaws
pub mod WordLaws
pub mod WordNeeds
mod NativeRanges
