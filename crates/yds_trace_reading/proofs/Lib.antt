pub mod Giving
pub mod Beginning
pub mod Draining
pub mod Passing
