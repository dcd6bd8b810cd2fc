-- What this crate states: its definitions, by module.
pub mod Books
pub mod Cuts
pub mod Recorded
pub mod Claims
pub mod Courses
pub mod Lives
pub mod WakeTimes
