pub mod Lines
pub mod Decided
