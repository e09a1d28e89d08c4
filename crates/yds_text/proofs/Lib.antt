mod FirstLine
mod FirstField
mod Spelled
mod Digits
mod Fractions
mod PlainField
pub mod Counted
