pub mod LogIn
