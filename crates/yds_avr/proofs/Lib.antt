pub mod Terms
pub mod Standing
pub mod Rounded
pub mod Together
