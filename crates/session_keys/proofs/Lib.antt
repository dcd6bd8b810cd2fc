pub mod Halves
pub mod KnownAnswers
