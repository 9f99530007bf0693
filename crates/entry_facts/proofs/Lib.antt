pub mod Live
pub mod Shards
pub mod Entries
pub mod Letters
pub mod Cores
