pub mod Fetching
pub mod Code
