pub mod Settled
pub mod Part
pub mod PartKept
pub mod LeftOut
pub mod Limits
pub mod Kept
pub mod Views
