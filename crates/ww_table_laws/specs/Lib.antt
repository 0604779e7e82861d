pub mod Laws
pub mod InsideLaws
pub mod NoEvents
