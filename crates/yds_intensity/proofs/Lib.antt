pub mod Orders
pub mod Sweeps
