pub mod Answers
pub mod Reading
pub mod Paths
pub mod Bodies
pub mod Reindexes
