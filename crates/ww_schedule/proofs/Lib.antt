pub mod Kept
pub mod Said
pub mod Replays
pub mod OneText
