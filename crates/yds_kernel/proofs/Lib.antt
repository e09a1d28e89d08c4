pub mod Digits
pub mod Places
pub mod Names
pub mod Halves
pub mod Marks
