pub mod Numbers
pub mod Made
pub mod Showing
pub mod Underway
pub mod Answered
pub mod Asking
