pub mod Contexts
pub mod Entries
pub mod Orders
pub mod Alongs
pub mod Rounds
