pub mod Nothing
