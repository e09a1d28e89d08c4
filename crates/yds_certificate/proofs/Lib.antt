pub mod LastLevel
pub mod Cover
pub mod Extended
pub mod Joined
pub mod Together
