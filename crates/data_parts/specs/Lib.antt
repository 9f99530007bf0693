pub mod Clocks
pub mod Places
pub mod Steps
pub mod Endings
pub mod Slices
