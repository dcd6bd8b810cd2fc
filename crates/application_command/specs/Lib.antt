-- What this crate states: its definitions, by module.
pub mod ApplicationCommands
pub mod ApplicationCommandViews
pub mod ApplicationRuns
