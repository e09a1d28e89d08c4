pub mod Ends
pub mod Part
