-- What this crate states: its definitions, by module.
pub mod Links
pub mod Laws
pub mod Invariant
pub mod Flowing
pub mod Keeping
pub mod LossFree
pub mod Recovery
pub mod Filling
pub mod FillingAgain
pub mod Timers
pub mod EachEnd
pub mod Mending
pub mod Repairs
pub mod KnownAnswers
