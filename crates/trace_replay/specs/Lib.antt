-- What this crate states: its definitions, by module.
pub mod Places
pub mod Takings
pub mod Standing
pub mod Replays
pub mod Going
pub mod Compared
pub mod Laws
