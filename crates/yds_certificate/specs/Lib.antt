pub mod Level
pub mod Certificate
pub mod Merging
