pub mod NewQubit
