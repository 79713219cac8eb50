pub mod Writing
pub mod Turning
