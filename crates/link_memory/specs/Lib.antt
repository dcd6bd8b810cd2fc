-- What this crate states: its definitions, by module.
pub mod OutsideMemory
pub mod Clocks
pub mod WiresMemory
pub mod KeptCalls
