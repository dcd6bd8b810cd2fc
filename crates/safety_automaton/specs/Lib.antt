-- What this crate states: its definitions, by module.
pub mod Keys
pub mod Pairs
pub mod Safety
pub mod Reports
pub mod Views
pub mod Kept
pub mod Rules
pub mod Laws
