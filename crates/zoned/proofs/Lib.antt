pub mod Fields
pub mod Summing
pub mod Carrying
pub mod Going
pub mod Signs
pub mod Settling
pub mod Combining
pub mod Ways
