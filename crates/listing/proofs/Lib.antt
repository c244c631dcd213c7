pub mod State
pub mod Ran
