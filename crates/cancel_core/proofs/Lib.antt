pub mod Entries
pub mod Leaving
pub mod Nodes
pub mod Noting
pub mod Placed
pub mod Waiters
