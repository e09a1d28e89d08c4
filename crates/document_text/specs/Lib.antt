pub mod Job
pub mod Level
