-- What this crate states: its definitions, by module.
pub mod LookingUp
pub mod Progress
pub mod Runs
pub mod LawsBelow
pub mod OneEnd
pub mod OwnRecordings
pub mod Pairs
pub mod Worlds
pub mod InText
pub mod AnyLine
pub mod Macs
pub mod Genuine
