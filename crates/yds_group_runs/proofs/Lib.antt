pub mod Units
pub mod Selections
pub mod Above
pub mod Costs
pub mod Spending
