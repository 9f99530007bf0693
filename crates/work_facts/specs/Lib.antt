pub mod Searches
pub mod Works
