pub mod Starts
pub mod Lines
pub mod Long
pub mod Buffer
pub mod Given
pub mod Passing
