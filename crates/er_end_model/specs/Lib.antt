-- What this crate states: its definitions, by module.
pub mod Outcomes
pub mod Stacks
pub mod Steps
pub mod Layers
pub mod Ends
pub mod Laws
pub mod Hearing
pub mod Giving
pub mod Origins
pub mod Releasing
pub mod Timing
pub mod Reasons
pub mod Bounds
pub mod KnownAnswers
