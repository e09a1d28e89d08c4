pub mod Order
pub mod Ordering
pub mod Advancing
pub mod Held
pub mod Ring
pub mod Stopping
pub mod Taking
