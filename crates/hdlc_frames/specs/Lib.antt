-- What this crate states: its definitions, by module.
pub mod Framing
pub mod Spelling
pub mod Deframing
pub mod Scanning
pub mod Buffers
pub mod Judgements
pub mod Shown
pub mod Resting
pub mod Laws
pub mod FirstClose
pub mod Controls
pub mod Bodies
pub mod ControlOctets
pub mod KnownAnswers
