pub mod Plain
pub mod Names
pub mod RowsRead
pub mod Fits
pub mod Comments
pub mod Again
mod Examples
pub mod Holding
pub mod Parts
pub mod Worth
mod WorthExamples
