-- What this crate states: its definitions, by module.
pub mod Recordings
pub mod Telling
pub mod Keeping
pub mod KnownAnswers
pub mod KeptAnswers
