-- What this crate states: its definitions, by module.
pub mod Mac
pub mod Laws
