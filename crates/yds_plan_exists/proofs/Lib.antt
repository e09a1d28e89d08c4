mod Orders
mod Criticals
mod Fills
pub mod Exists
mod ExistsExamples
