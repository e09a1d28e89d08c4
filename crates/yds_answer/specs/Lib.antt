pub mod Endings
pub mod Told
pub mod WithPoints
pub mod Spaced
