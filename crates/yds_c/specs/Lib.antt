pub mod Given
pub mod Text
pub mod Put
pub mod Answered
