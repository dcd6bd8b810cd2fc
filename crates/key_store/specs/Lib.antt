-- What this crate states: its definitions, by module.
pub mod Fields
pub mod KeyFiles
pub mod Ranges
pub mod Answers
pub mod Kept
pub mod Written
pub mod Lists
pub mod Spans
pub mod Holding
