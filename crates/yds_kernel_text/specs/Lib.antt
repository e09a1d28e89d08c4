pub mod Reading
pub mod Advancing
pub mod Filling
