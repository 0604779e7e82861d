pub mod Streams
pub mod Workers
pub mod Run
