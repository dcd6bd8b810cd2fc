-- What this crate states: its definitions, by module.
pub mod Giving
pub mod Parts
pub mod Keeping
pub mod Standing
pub mod Farewells
pub mod Writes
