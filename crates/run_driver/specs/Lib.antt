pub mod Causes
pub mod Drives
