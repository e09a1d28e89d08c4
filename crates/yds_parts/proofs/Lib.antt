pub mod TwoParts
pub mod WrittenParts
pub mod Horizons
pub mod Energies
pub mod EventsOfParts
pub mod StretchesOfParts
pub mod SpentOfParts
pub mod PlansOfParts
pub mod PendingOfParts
pub mod ServedOfParts
pub mod RunsOfParts
mod PartsExamples
mod RunsExamples
mod PremisesExamples
