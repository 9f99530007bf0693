mod Answered
mod Cleared
pub mod Kept
mod KeptOrder
pub mod Least
mod NoneDue
mod Owned
pub mod Places
mod Ranked
pub mod Timed
pub mod Versioned
