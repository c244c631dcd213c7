pub mod Optional
pub mod Printed
pub mod Refusal
