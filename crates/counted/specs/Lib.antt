-- What this crate states: its definitions, by module.
pub mod Counting
pub mod Rising
pub mod Kept
pub mod KnownAnswers
