pub mod Records
pub mod Stepping
pub mod Promised
