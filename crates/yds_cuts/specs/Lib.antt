pub mod Cuts
pub mod CutLaws
pub mod VerdictOfParts
pub mod Groups
pub mod Energies
pub mod Bounds
pub mod ClosedCuts
