pub mod Over
pub mod Sweep
pub mod Pairs
