pub mod Example
pub mod Pits
pub mod Stands
