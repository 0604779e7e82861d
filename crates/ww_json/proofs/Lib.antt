pub mod Items
pub mod Each
pub mod Numbered
pub mod Kept
pub mod Said
