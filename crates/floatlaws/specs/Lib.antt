pub mod Same
pub mod Sign
pub mod Round
pub mod Finite
pub mod Nan
