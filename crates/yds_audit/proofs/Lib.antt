pub mod Neighbours
pub mod Speeds
pub mod Works
pub mod Feasible
