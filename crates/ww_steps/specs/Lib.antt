pub mod Situations
pub mod Stations
pub mod Answers
pub mod Opened
pub mod Outlooks
