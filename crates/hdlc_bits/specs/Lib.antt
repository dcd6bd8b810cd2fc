-- What this crate states: its definitions, by module.
pub mod Framing
pub mod Stuffing
pub mod Keeping
pub mod Pieces
pub mod Judgements
pub mod Shown
pub mod Resting
pub mod Buffers
pub mod Advancing
pub mod SegmentViews
pub mod Rooms
pub mod Laws
pub mod KnownAnswers
