-- What this crate states: its definitions, by module.
pub mod Draws
pub mod Turns
pub mod KnownWords
