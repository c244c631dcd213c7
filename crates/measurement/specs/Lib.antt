pub mod Measured
pub mod Rows
