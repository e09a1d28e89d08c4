pub mod AskedWords
