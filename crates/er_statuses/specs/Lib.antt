-- What this crate states: its definitions, by module.
pub mod LastLines
pub mod KeyLines
pub mod Answers
pub mod Writing
pub mod Fetching
pub mod FileScripts
pub mod ScriptEnds
pub mod FileSteps
