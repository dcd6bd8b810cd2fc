-- What this crate states: its definitions, by module.
pub mod Shorts
pub mod Heard
pub mod Recordings
