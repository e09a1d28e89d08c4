pub mod Words
pub mod Decimal
pub mod Letters
pub mod Tasks
pub mod Start
pub mod Request
pub mod Views
pub mod Texts
