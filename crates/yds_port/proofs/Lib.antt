mod Read
pub mod Putting
