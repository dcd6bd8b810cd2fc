-- What this crate states: its definitions, by module.
pub mod Inside
pub mod KnownAnswers
pub mod WrongDesigns
