-- What this crate states: its definitions, by module.
pub mod Texts
pub mod Refusals
pub mod Laws
