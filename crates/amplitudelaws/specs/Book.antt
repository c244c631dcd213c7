pub mod Ring
pub mod Complex
pub mod Signs
pub mod Reals
pub mod Sum
pub mod Matrix
pub mod Operators
pub mod Theorem
