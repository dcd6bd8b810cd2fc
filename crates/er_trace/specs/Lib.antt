-- What this crate states: its definitions, by module.
pub mod Ranges
pub mod Table
pub mod Headers
pub mod Files
pub mod Answers
pub mod Outcomes
pub mod Texts
pub mod Laws
pub mod Readings
