pub mod Counts
pub mod Places
pub mod Read
pub mod Whole
