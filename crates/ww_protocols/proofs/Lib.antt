-- shared locks
pub mod Changes
pub mod HallsKept
pub mod HallRuns
pub mod Ways
-- data under a lock
pub mod Times
pub mod Memory
pub mod Data
pub mod Behind
pub mod HallSteps
pub mod SharedData
pub mod SharedDataRuns
pub mod SharedBehind
-- seats
pub mod Sets
pub mod Held
pub mod Sound
pub mod Tickets
pub mod Queue
pub mod ClassesKept
pub mod ClassRuns
pub mod Applied
