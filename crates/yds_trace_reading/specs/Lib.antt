pub mod LineFault
pub mod Begin
pub mod Taken
pub mod Reading
