pub mod ValueOrder
pub mod Ratio
pub mod OrderLaws
pub mod Mixed
pub mod Text
