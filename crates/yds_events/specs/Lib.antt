pub mod Keys
pub mod ServingOrder
pub mod Stretch
pub mod Timeline
pub mod Window
