pub mod Fields
pub mod Started
