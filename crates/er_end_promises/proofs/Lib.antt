pub mod Telling
pub mod Resting
pub mod Taking
pub mod Accepting
pub mod Bringing
pub mod Releasing
pub mod Sending
