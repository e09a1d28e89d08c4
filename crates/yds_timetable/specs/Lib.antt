pub mod Shares
pub mod Pace
pub mod Timetable
pub mod KeptRows
pub mod Sorted
pub mod Room
