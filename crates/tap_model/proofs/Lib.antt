pub mod Turning
pub mod AllLinks
pub mod StreamEnded
pub mod StreamEnding
pub mod StreamRules
pub mod Counting
