pub mod Nothing
pub mod Ending
pub mod Folding
pub mod Reading
pub mod Flags
pub mod Past
pub mod Report
