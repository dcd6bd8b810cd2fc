-- What this crate states: its definitions, by module.
pub mod Inboxes
pub mod KeptLayers
pub mod FrameRoom
pub mod Coming
pub mod KeptEnds
pub mod Shown
pub mod Given
pub mod Standing
pub mod Resting
pub mod Keeping
