pub mod Words
pub mod AnyWords
