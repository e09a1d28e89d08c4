pub mod AsSlots
pub mod Faithful
pub mod InUnits
pub mod Laws
pub mod Sharing
pub mod Processors
