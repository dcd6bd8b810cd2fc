-- What this crate states: its definitions, by module.
pub mod Hearing
pub mod Given
pub mod VerdictWords
pub mod Verdicts
pub mod Lines
pub mod Texts
pub mod AllLinks
pub mod EndWords
pub mod Ends
pub mod EndTexts
pub mod StreamEnds
pub mod Ears
pub mod KnownAnswers
pub mod KnownEnds
pub mod KnownMacs
