-- What this crate states: its definitions, by module.
pub mod MacPieces
pub mod FrameCounts
pub mod BitFrameCounts
