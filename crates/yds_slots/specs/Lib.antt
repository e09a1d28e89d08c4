pub mod Received
pub mod KeptSlots
pub mod Schedule
pub mod Between
