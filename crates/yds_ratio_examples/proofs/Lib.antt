pub mod Spendings
pub mod FourJobs
mod CommonDeadline
mod TwoSides
mod NearMisses
mod GroupRuns
