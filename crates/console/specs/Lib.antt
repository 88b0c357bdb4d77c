pub mod Turns
pub mod TurnLaws
