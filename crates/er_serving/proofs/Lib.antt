pub mod RecordedLines
pub mod Sayings
pub mod LineEndings
pub mod LineMeanings
pub mod Recordings
