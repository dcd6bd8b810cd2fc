-- What this crate states: its definitions, by module.
pub mod Outsides
pub mod RecordedLines
pub mod OutsideViews
pub mod LineCommands
pub mod LineCommandViews
pub mod LineRuns
pub mod LineStatuses
pub mod LineWriting
pub mod Moments
pub mod Recordings
