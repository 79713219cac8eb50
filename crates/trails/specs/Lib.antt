pub mod Listings
pub mod Tallies
pub mod Sessions
pub mod Blocks
