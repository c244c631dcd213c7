pub mod Eight
pub mod Opened
pub mod Leaving
pub mod Passing
