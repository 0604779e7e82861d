-- the core
pub mod Condemned
-- the core with its sleepers
pub mod Scene
pub mod Sleepers
pub mod InCall
-- endless runs of these
pub mod Premises
pub mod GoingOn
pub mod Asking
pub mod Views
pub mod Handing
pub mod Backing
