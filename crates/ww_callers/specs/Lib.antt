-- passes and desks
pub mod Exclusion
-- drivers of desks
pub mod Stages
pub mod Deeds
pub mod Drives
pub mod Handing
pub mod Witness
pub mod Data
pub mod Uses
