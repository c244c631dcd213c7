pub mod Surveying
