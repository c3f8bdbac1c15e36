pub mod Rest
pub mod Unlisted
pub mod OverCode
