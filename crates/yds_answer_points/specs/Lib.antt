pub mod Round
pub mod Compare
