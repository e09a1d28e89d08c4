pub mod Fault
pub mod Part
pub mod Split
pub mod LevelPace
pub mod Written
pub mod Cut
pub mod Rounded
