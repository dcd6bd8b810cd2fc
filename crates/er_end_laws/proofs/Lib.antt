pub mod Hearing
pub mod Sending
pub mod Ending
pub mod GoingOn
pub mod Lasting
