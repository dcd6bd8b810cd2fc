pub mod Table
pub mod Adding
pub mod Among
pub mod Recording
pub mod Places
pub mod Deciding
