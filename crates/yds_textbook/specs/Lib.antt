pub mod Waiting
pub mod Served
pub mod Stages
pub mod Together
pub mod Theorem
