pub mod Sums
pub mod Lists
pub mod Filters
pub mod Lines
pub mod Spelling
pub mod Common
