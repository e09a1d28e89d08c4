pub mod Numbers
pub mod Lines
pub mod Spelling
pub mod Status
pub mod Fields
