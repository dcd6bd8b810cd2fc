-- The lemmas of this crate's proofs, by module.
pub mod Growing
pub mod Steps
pub mod Keeps
pub mod Tellings
pub mod Reading
