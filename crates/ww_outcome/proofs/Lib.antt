pub mod Answering
pub mod CutOff
