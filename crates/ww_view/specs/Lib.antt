pub mod Word
pub mod View
pub mod May
pub mod Made
pub mod Laws
