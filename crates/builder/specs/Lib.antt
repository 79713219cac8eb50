pub mod Meaning
pub mod Growth
pub mod Steps
pub mod Tables
pub mod Leaves
pub mod Layers
