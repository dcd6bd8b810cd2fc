-- What this crate states: its definitions, by module.
pub mod Pairs
pub mod PairKeys
pub mod Changes
pub mod Ledgers
pub mod Counts
pub mod Ports
pub mod KeptLinks
pub mod Standing
pub mod WorldSteps
