pub mod Zeros
pub mod Reading
pub mod Writing
