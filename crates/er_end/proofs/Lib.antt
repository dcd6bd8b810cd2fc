pub mod Offers
pub mod Tying
pub mod Risings
pub mod FrameRooms
pub mod Lines
pub mod Uppers
pub mod Standings
pub mod Keepings
