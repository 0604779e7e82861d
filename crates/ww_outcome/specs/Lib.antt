pub mod Said
pub mod Cancels
pub mod Outcome
pub mod Text
pub mod CutOff
pub use Rattle.ww_script_parts.specs.Scripts
