pub mod SpendingByPower
pub mod RatioLaws
