pub mod Load
pub mod Side
