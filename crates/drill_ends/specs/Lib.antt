-- What this crate states: its definitions, by module.
pub mod Keys
pub mod Refusals
pub mod Events
pub mod Tellings
pub mod StationPlans
pub mod KeptStations
pub mod KeptStacks
pub mod KeptEnds
pub mod SafeEnds
pub mod StationEnds
pub mod StackEnds
pub mod SendCounts
