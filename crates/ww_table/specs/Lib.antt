pub mod Seat
pub mod Steps
pub mod Inside
pub mod Made
pub mod Closed
