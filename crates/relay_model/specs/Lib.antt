-- What this crate states: its definitions, by module.
pub mod Units
pub mod UnitKinds
pub mod Loads
pub mod Carried
pub mod Losing
pub mod Laws
pub mod KnownUnits
pub mod KnownAnswers
