pub mod Transact
pub mod Change
pub mod Crew
