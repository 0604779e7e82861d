pub mod Helds
pub mod Footprints
pub mod Carrying
pub mod Changes
pub mod Openings
pub mod Closings
