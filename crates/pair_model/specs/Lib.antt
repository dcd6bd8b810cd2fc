-- What this crate states: its definitions, by module.
pub mod Links
pub mod Steps
pub mod Walks
