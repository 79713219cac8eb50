pub mod Written
pub mod Turning
pub mod AllTaken
pub mod ListTurning
pub mod FixedTurning
pub mod Viewing
