pub mod Lines
pub mod Calls
pub mod Lengths
pub mod Newlines
pub mod Pieces
pub mod Stored
pub mod Fitting
