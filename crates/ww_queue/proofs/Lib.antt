-- what a test says
pub mod Outcomes
-- a wait list, and the waiters that join and leave it
pub mod Positions
pub mod Members
pub mod Joins
pub mod Leaves
pub mod Aheads
pub mod Rooms
-- which waiter has to die
pub mod Deaths
pub mod Signs
pub mod AnyLists
