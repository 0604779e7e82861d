pub mod Kept
pub mod FirstPorts
pub mod More
pub mod Said
