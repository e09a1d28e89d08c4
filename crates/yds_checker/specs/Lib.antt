pub mod Home
pub mod Speed
pub mod Judgement
pub mod Placed
pub mod Standing
pub mod Heights
pub mod PiecesInTurn
