pub mod Lent
pub mod Noted
pub mod Placed
pub mod Stored
