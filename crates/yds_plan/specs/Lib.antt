pub mod Laid
pub mod PlanLevels
pub mod Drafts
pub mod Timetabled
