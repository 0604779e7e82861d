pub mod AsBox
pub mod AsOfficeBox
pub mod Modes
