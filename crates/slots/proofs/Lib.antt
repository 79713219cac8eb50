pub mod SameSlots
pub mod Asks
pub mod Leaves
