pub mod Again
pub mod Holds
pub mod Laws
pub mod Worth
