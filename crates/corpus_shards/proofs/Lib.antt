pub mod Appended
pub mod Cases
mod Known
mod Made
pub mod Notes
mod PlacedLines
mod Purged
mod Replaced
mod Written
