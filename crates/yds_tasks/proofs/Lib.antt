pub mod Counts
pub mod Names
pub mod Told
pub mod Printed
pub mod Level
