pub mod Promotion
pub mod Sweeping
pub mod Near
pub mod Passed
pub mod Book
