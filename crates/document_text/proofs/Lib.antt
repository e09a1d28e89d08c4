mod Named
pub mod Batches
pub mod LevelLines
