pub mod Seated
pub mod Making
pub mod Closing
pub mod Numbers
pub mod OnTop
pub mod Ends
