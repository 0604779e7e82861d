-- lists of node numbers
pub mod Members
pub mod Seens
pub mod Doubles
-- graphs, and walks on them
pub mod GraphFacts
pub mod Walks
pub mod Fronts
-- what a transaction touches, changes and keeps
pub mod FootprintFacts
pub mod Turns
pub mod Kept
pub mod Unused
pub mod Frames
pub mod Reversals
-- histories, and what two things that say the same are
pub mod Histories
pub mod Sames
-- the total of all values
pub mod Totals
