-- What this crate states: its definitions, by module.
pub mod Turns
pub mod Streams
pub mod Openings
pub mod Judging
pub mod AuditLines
pub mod AuditTexts
pub mod Writes
pub mod Audits
pub mod Marks
pub mod Counts
