-- What this crate states: its definitions, by module.
pub mod Segments
pub mod Tpdus
pub mod Refusals
pub mod Transport
pub mod Kept
pub mod Resting
pub mod Waiting
pub mod Standing
pub mod Laws
pub mod Causes
pub mod KnownAnswers
