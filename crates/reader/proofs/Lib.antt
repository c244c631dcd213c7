pub mod Judging
pub mod Numbers
