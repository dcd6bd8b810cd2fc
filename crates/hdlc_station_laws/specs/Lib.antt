-- What this crate states: its definitions, by module.
pub mod FrameCauses
pub mod LastSaid
pub mod Received
pub mod Settings
pub mod Expiries
pub mod StationEvents
pub mod GivingUp
pub mod Busy
pub mod SentAgain
pub mod Gaps
pub mod Asking
pub mod Windows
pub mod KnownAnswers
