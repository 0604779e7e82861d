pub mod FirstSteps
pub mod Gathered
pub mod Holding
pub mod Popped
pub mod Trying
