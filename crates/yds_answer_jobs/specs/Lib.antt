pub mod Admit
pub mod Expand
