-- What this crate states: its definitions, by module.
pub mod Seeing
pub mod Acting
pub mod DeedSteps
pub mod Sequels
pub mod Visiting
pub mod Writing
