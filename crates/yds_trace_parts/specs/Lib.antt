pub mod Told
pub mod Place
pub mod Telling
pub mod Plain
pub mod Flushing
pub mod Driving
pub mod Laws
