-- What this crate states: its definitions, by module.
pub mod Bits
pub mod LowestFirst
