-- What this crate states: its definitions, by module.
pub mod StepRanges
pub mod StepNumbers
pub mod Table
pub mod Choices
pub mod Files
pub mod Answers
pub mod Texts
pub mod Laws
pub mod Readings
pub mod KnownAnswers
