pub mod Settings
pub mod Plainly
pub mod Letters
pub mod Example
