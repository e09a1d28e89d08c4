pub mod Plan
pub mod Policies
pub mod Curve
pub mod Report
pub mod ReportJson
