-- What this crate states: its definitions, by module.
pub mod Messages
pub mod Rooms
pub mod Kinds
pub mod Spelling
pub mod SpellingLaws
pub mod Reading
pub mod Sealed
pub mod SealedLaws
pub mod Representation
