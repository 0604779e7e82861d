pub mod Locks
pub mod Keeping
pub mod Fresh
pub mod Marks
pub mod Account
pub mod Seeing
