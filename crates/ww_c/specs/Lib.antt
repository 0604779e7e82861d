pub mod Slots
pub mod Offices
pub mod Lending
pub mod Codes
pub mod Exports
pub mod Modes
