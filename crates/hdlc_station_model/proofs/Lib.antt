pub mod Gives
mod Reporting
pub mod Timing
pub mod Numbers
pub mod Releasing
pub mod Causing
