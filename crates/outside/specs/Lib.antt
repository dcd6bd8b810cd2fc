-- What this crate states: its definitions, by module.
pub mod Acts
pub mod Seen
pub mod Ties
pub mod Doings
pub mod Scripts
pub mod Absent
pub mod Notes
pub mod TieSteps
pub mod Chains
pub mod ScriptSteps
pub mod SinkTexts
pub mod ActSteps
