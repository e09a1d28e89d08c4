pub mod Parts
pub mod Stamp
pub mod Event
pub mod Form
pub mod Line
pub mod Text
pub mod Views
