pub mod Rate
pub mod Roster
