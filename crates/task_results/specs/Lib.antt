pub mod Example
pub mod Results
pub mod Stands
