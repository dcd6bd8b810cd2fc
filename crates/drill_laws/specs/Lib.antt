-- What this crate states: its definitions, by module.
pub mod Stacks
pub mod Laws
pub mod LawsOfEnds
