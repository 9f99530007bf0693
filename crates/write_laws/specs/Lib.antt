pub mod Copied
pub mod CopiedAll
pub mod CopiedRows
pub mod CopiedSlices
pub mod Destinations
pub mod KindsAsked
pub mod Throttled
pub mod TreeWrites
