-- What this crate states: its definitions, by module.
pub mod Facts
pub mod Openings
pub mod Talks
pub mod Authentic
pub mod Marks
pub mod Messages
pub mod Deliveries
