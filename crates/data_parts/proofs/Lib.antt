pub mod Replies
pub mod Moves
pub mod Grown
pub mod Using
pub mod Lost
