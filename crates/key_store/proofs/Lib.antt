pub mod Entries
pub mod Holdings
pub mod Twices
pub mod Spans
pub mod Tables
pub mod ReadBack
