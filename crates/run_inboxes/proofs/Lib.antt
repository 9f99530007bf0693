pub mod Pairs
pub mod Rows
pub mod Linked
pub mod Same
