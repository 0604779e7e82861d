pub mod Covering
pub mod Undecided
pub mod Crews
