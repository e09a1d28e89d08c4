pub mod Contracted
pub mod Removed
pub mod Clipped
pub mod Removing
pub mod Spread
pub mod Cut
