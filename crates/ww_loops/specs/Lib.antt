pub mod Contexts
pub mod Calls
pub mod Loops
pub mod Witness
pub mod Wanting
pub mod Uses
