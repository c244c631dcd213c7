pub mod Taken
pub mod Rooms
pub mod Underway
pub mod Outcomes
