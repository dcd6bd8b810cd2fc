-- What this crate states: its definitions, by module.
pub mod LastTpdus
pub mod KnownAnswers
