-- What this crate states: its definitions, by module.
pub mod Tallies
pub mod Saying
pub mod KnownAnswers
