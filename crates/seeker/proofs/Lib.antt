pub mod OneWord
pub mod Written
pub mod Masks
pub mod Answered
