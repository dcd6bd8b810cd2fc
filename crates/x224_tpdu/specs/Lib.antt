-- What this crate states: its definitions, by module.
pub mod Kinds
pub mod Parameters
pub mod Spelling
pub mod Spellings
pub mod Faults
pub mod Reading
pub mod Function
pub mod ReadingLaws
pub mod Writing
pub mod Parts
pub mod KnownAnswers
