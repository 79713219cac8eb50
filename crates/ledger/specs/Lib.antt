pub mod Stops
pub mod Ledger
