pub mod Active
pub mod Narrowed
pub mod Rows
pub mod Calls
pub mod Accepted
