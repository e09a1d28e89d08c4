pub mod Acts
pub mod Threads
pub mod Table
pub mod Faults
pub mod Telling
pub mod Kept
