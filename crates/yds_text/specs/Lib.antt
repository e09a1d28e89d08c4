pub mod Left
pub mod Read
pub mod Count
pub mod FractionParts
pub mod Plain
