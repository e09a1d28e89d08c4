pub mod EnergyLaws
pub mod RoundingLaws
pub mod SplitLaws
pub mod ComparisonLaws
