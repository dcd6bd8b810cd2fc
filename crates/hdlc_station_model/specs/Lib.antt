-- What this crate states: its definitions, by module.
pub mod Frames
pub mod Stations
pub mod Sending
pub mod Receiving
pub mod Selective
pub mod Calls
pub mod Events
pub mod Lines
pub mod Repeating
pub mod Laws
pub mod Reports
pub mod Timing
pub mod Causes
pub mod LastFrames
pub mod KnownAnswers
pub mod SelectiveAnswers
