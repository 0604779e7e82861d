-- passes and desks
pub mod Held
-- drivers of desks
pub mod Answered
pub mod Outside
pub mod Ordered
pub mod Looking
pub mod Kept
pub mod Keeping
pub mod Runs
pub mod Shown
pub mod Turns
pub mod Starting
pub mod Pair
pub mod Sleeping
pub mod Backing
pub mod Doomed
pub mod Dying
pub mod Wounding
pub mod CalledOff
pub mod Passing
pub mod Looked
pub mod Data
pub mod HandedOver
pub mod Applied
