-- What this crate states: its definitions, by module.
pub mod FrameCheck
pub mod Register
pub mod Contents
pub mod Laws
pub mod KnownAnswers
