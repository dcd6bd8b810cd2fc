pub mod Folds
pub mod Rests
pub mod Writings
