pub mod SlotValues
pub mod Settled
pub mod Taking
pub mod Using
pub mod Noting
pub mod Running
