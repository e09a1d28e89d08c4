pub mod Parts
pub mod PartsLaws
pub mod EnergyOfParts
pub mod SpentOfParts
pub mod PlansOfParts
pub mod RunsOfParts
