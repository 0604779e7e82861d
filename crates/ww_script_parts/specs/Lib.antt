pub mod Versions
pub mod Transactions
pub mod Acts
pub mod Scripts
pub mod Spelling
