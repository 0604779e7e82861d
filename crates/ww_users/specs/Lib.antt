pub mod Ways
pub mod Trips
pub mod Rounds
