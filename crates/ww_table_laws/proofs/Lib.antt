pub mod Exclusion
mod NoEvents
mod One
pub mod Freedom
