-- What this crate states: its definitions, by module.
pub mod Kinds
pub mod Cutting
pub mod Told
pub mod Counting
pub mod Applying
pub mod Standing
pub mod Prompt
