-- What this crate states: its definitions, by module.
pub mod Outside
pub mod Growth
pub mod Wires
pub mod States
