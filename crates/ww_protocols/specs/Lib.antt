-- shared locks
pub mod Hall
pub mod Invariant
pub mod Readers
pub mod Ways
-- data under a lock
pub mod Memory
pub mod Data
pub mod SharedData
pub mod StaleReads
-- seats
pub mod Seat
pub mod Class
pub mod Seats
pub mod Witness
pub mod Uses
