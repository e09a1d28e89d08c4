pub mod Renamed
pub mod InTurn
pub mod ServedParts
pub mod OnTable
pub mod Works
pub mod Verdicts
pub mod Priced
pub mod Selected
pub mod Below
pub mod LeastEnergies
pub mod Above
pub mod CutEnergies
pub mod ClosedCuts
pub mod CheapestParts
pub mod SpentParts
pub mod SpentOfEachPart
pub mod SidesOfParts
pub mod WrittenGroups
pub mod OverlappingParts
pub mod BothBounds
mod CutsExamples
pub mod BoundsExamples
mod ClosedCutsExamples
mod WrittenExamples
