pub mod Available
pub mod Chosen
pub mod Greatest
pub mod Waiting
pub mod Walked
