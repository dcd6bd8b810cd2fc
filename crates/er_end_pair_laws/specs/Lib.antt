-- What this crate states: its definitions, by module.
pub mod Openings
pub mod Reasons
pub mod Links
pub mod Steps
pub mod Phases
pub mod Laws
pub mod Ordered
pub mod Greetings
pub mod Recovery
pub mod RecoveryInTurn
pub mod LawsBelow
