-- What this crate states: its definitions, by module.
pub mod SeenOctets
pub mod Serving
pub mod Going
pub mod OneMore
pub mod ItemDeeds
pub mod ActDeeds
pub mod ModelSteps
pub mod GoingSteps
pub mod Laws
pub mod KnownAnswers
