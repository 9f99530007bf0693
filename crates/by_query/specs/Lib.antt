pub mod Changes
pub mod NoUpdates
pub mod Overlays
pub mod Paces
pub mod Updating
pub mod Writes
