pub mod Owner
pub mod Laws
pub mod AnySeats
pub mod AnyLaws
