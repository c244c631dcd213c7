pub mod Counting
pub mod Writing
pub mod WordBytes
pub mod PauliStored
pub mod Answered
pub mod Longest
