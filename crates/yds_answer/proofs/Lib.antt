pub mod Complete
pub mod Replied
pub mod SpacedLine
