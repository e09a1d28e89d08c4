pub mod Multiples
pub mod PushedPoint
pub mod Neighbours
