pub mod AllTold
pub mod Attaching
pub mod Rising
