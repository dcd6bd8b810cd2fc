-- What this crate states: its definitions, by module.
pub mod Saying
pub mod Users
