pub mod Qubit
