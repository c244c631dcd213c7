pub mod Same
pub mod Round
pub mod Sum
pub mod Product
pub mod Fit
pub mod Rules
pub mod Zero
