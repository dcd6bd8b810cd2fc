-- What this crate states: its definitions, by module.
pub mod Slots
pub mod Statuses
pub mod Deeds
pub mod Ties
pub mod Handles
pub mod Calls
pub mod Makings
pub mod Kmacs
pub mod KeyFaults
pub mod Shown
pub mod Reads
pub mod Used
pub mod Runs
pub mod KnownAnswers
