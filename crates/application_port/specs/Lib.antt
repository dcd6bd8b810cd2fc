-- What this crate states: its definitions, by module.
pub mod Ports
pub mod Keeping
