pub mod Ending
pub mod Entry
