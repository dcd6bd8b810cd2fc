-- What this crate states: its definitions, by module.
pub mod Blocks
pub mod Joining
pub mod JoiningLaws
pub mod Resting
