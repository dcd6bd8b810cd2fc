-- What this crate states: its definitions, by module.
pub mod Slots
pub mod Kept
pub mod Places
pub mod PlaceRings
pub mod Told
pub mod Replies
pub mod Held
pub mod Steps
pub mod SelectiveReplies
pub mod Stations
pub mod Alike
