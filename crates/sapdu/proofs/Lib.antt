pub mod Facts
pub mod ReadBack
pub mod SpelledBack
pub mod Ranges
pub mod Texts
