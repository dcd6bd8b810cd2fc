-- What this crate states: its definitions, by module.
pub mod Queues
pub mod Kept
