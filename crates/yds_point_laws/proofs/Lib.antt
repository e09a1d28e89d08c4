mod Chord
mod PowerTable
mod StretchCosts
mod AllCosts
pub mod PointCosts
pub mod Squares
pub mod NearRate
mod PolicyUnits
pub mod PolicySpends
pub mod RoundedCosts
mod Hinges
mod PricedRuns
pub mod PricedCosts
