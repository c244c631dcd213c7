pub mod Parity
pub mod Opening
pub mod Pivot
pub mod Source
pub mod Pairs
pub mod Highest
pub mod Eliminated
pub mod LinearWords
