pub mod KeptTasks
pub mod Read
pub mod Fields
pub mod Lines
pub mod Printed
pub mod LineKinds
