-- What this crate states: its definitions, by module.
pub mod Connections
pub mod Printed
pub mod Checks
pub mod Replays
pub mod Recordings
pub mod KnownAnswers
