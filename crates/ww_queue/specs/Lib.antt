pub mod Entry
pub mod Queue
pub mod Rules
pub mod Laws
pub mod AnySeats
pub mod Examples
