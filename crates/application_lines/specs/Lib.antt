-- What this crate states: its definitions, by module.
pub mod Requests
pub mod Streams
pub mod Standings
pub mod StreamLaws
pub mod Notices
pub mod NoticeReadings
pub mod NoticeLaws
pub mod Readings
pub mod Taking
pub mod Lending
pub mod KnownAnswers
