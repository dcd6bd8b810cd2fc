-- What this crate states: its definitions, by module.
pub mod StackEnds
pub mod Laws
pub mod KnownAnswers
