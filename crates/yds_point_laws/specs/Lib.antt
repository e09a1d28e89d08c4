pub mod PowerPoints
pub mod PointLaws
pub mod PolicyRate
pub mod RateLaws
