pub mod Leading
pub mod Critical
pub mod Choice
