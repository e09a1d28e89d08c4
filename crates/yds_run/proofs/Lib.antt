mod AskedQuestion
mod Tried
pub mod Reported
pub mod Ended
pub mod Worth
mod WorthExamples
