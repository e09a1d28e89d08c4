pub mod Points
pub mod Lengths
pub mod Spending
pub mod Agreeing
pub mod Planned
