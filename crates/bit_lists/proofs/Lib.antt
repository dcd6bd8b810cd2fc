pub mod Widths
pub mod Picks
pub mod Xors
pub mod Linear
pub mod LowestFirstLaws
