pub mod Halves
pub mod WithinLimits
pub mod OverDivisor
pub mod Values
pub mod WholeFirst
