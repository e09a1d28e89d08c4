pub mod Table
pub mod KeptTable
pub mod Gaps
pub mod Fault
pub mod Around
