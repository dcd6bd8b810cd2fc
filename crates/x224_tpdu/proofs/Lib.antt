pub mod Bounds
pub mod Converse
pub mod Cutting
pub mod RoundTrip
pub mod Spelled
