pub mod Wholes
pub mod Numbers
pub mod NumberLaws
pub mod PrimitiveArrayAccessorLemmas
