pub mod HeaderRanges
pub mod Words
pub mod OutcomeLines
pub mod EntryLines
pub mod KeptLines
pub mod PrintedLines
