pub mod BooleanLaws
