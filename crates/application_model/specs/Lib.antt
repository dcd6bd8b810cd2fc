-- What this crate states: its definitions, by module.
pub mod Ends
pub mod Lines
pub mod Histories
pub mod Services
pub mod Turns
pub mod Claims
pub mod Laws
pub mod KnownAnswers
