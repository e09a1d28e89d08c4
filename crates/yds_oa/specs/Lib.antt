pub mod Asked
pub mod Greatest
