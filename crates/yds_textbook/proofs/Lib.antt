pub mod Densest
pub mod Speeds
pub mod Chain
pub mod Starting
pub mod Whole
pub mod Left
pub mod Keys
pub mod OneStage
pub mod Intensities
pub mod Members
pub mod Stands
pub mod AllStages
pub mod Theorem
pub mod Making
mod TheoremExamples
