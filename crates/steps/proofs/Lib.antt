pub mod Ended
pub mod Flag
