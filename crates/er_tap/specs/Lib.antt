-- What this crate states: its definitions, by module.
pub mod Ranges
pub mod Table
pub mod Files
pub mod Answers
pub mod Readings
pub mod Digits
