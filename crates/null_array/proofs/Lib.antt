pub mod SameNulls
