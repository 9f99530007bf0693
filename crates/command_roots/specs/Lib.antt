pub mod Known
pub mod Reindexes
pub mod Results
pub mod Roots
