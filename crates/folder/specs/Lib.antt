pub mod Meaning
pub mod Foldable
