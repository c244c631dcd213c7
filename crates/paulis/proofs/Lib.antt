pub mod Told
pub mod Checked
