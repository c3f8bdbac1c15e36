pub mod Taking
pub mod Editing
pub mod Scanning
pub mod Rules
