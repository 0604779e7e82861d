pub mod Parsed
pub mod Kept
pub mod Said
