pub mod Gathered
pub mod Looking
pub mod Trying
