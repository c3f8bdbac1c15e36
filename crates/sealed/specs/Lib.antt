pub mod Sealed
pub mod Demand3
pub mod Written
