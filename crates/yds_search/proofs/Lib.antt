pub mod KeySums
mod Shares
pub mod LowestSpeed
mod Members
mod Filled
mod Marked
mod Splits
mod Finish
mod Beginnings
mod Ends
mod Laid
mod Chosen
mod Fills
mod Reaches
mod Closures
pub mod Ranks
pub mod Partings
