pub mod Rows
pub mod Facts
pub mod Examples
pub mod Passing
