pub mod Fractions
pub mod Divisor
pub mod LowestTerms
