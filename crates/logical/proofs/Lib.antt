pub mod Turns
pub mod Fours
pub mod Orders
