pub mod Answer
pub mod Row
pub mod Outcome
pub mod Stores
