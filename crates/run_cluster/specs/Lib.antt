-- The boards of a cluster, what its workers get, and what is left of it at the end.
pub mod Boards
pub mod Places
pub mod Closing
pub mod Notes
pub mod Mail
pub mod Workers
pub mod Runs
pub mod Crews
