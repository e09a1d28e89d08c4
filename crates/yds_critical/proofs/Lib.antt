pub mod Leading
pub mod Shrinking
pub mod Searching
