pub mod Holding
pub mod Carried
pub mod Hands
pub mod Making
pub mod Moves
pub mod Opened
pub mod Closed
pub use Rattle.ww_seat.specs.declared.waits.Waits
