pub mod Events
pub mod Schedules
pub mod Spelling
pub mod ScheduleText
pub mod Replay
