pub mod Digits
pub mod Between
pub mod Numbers
