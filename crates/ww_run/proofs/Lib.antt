pub mod Bytes
pub mod Acts
pub mod Scripts
pub mod Balance
pub mod Outcomes
pub mod Starts
pub mod Ready
pub mod Ends
