pub mod Load
pub mod TimeShare
pub mod Spent
