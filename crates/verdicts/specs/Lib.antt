pub mod Verdict
pub mod Flag
pub mod Nothing
