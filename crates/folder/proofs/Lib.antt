pub mod Stays
pub mod Lefts
pub mod Fired
pub mod Turn
pub mod Answered
