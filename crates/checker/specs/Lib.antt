pub mod Meaning
pub mod Surveyed
