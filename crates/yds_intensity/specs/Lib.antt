pub mod DeadlineOrder
pub mod Sums
pub mod Due
pub mod Put
