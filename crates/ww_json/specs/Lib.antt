pub mod Fault
pub mod Parts
pub mod Kinds
pub mod Pieces
pub mod Spelling
