pub mod Bank
pub mod Caller
