pub mod Kernel
pub mod Pivot
