pub mod Windows
pub mod Fronts
