pub mod Laws
pub mod Text
pub mod PartText
pub mod Views
pub mod Limit
pub mod Writing
