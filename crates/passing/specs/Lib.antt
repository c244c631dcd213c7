pub mod Meaning
pub mod Unrefused
pub mod Accepted
