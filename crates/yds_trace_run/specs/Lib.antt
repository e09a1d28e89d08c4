pub mod Fault
pub mod FaultText
pub mod Answer
pub mod Endings
pub mod Worth
