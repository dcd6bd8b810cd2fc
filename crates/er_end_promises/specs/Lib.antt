-- What this crate states: its definitions, by module.
pub mod Told
pub mod Calls
pub mod AfterRelease
pub mod Verified
pub mod Order
pub mod Sending
