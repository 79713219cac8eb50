pub mod Booleans
pub mod BooleanArrayAccessorLemmas
