pub mod LevelGrown
pub mod Held
pub mod Told
pub mod SlotGrain
pub mod FractionField
pub mod RunParts
pub mod PointTable
pub mod Placed
mod PlainLine
