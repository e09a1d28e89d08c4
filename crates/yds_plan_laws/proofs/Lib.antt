pub mod Certified
pub mod Instants
mod Units
pub mod MoreJobs
mod FirstLevel
pub mod Pending
pub mod FewSlots
pub mod FewLevels
pub mod FewRounded
mod Ends
pub mod FewPieces
pub mod OneCertificate
mod Running
mod OneSchedule
pub mod OnePlan
mod Spelled
pub mod Once
mod RunsAlong
pub mod OneRun
pub mod OnceRun
mod OnceCompared
pub mod OnceAdmitted
mod OneSplit
mod OneStretch
mod OneRounding
pub mod OnceRounded
