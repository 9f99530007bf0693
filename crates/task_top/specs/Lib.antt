pub mod EachLine
pub mod Generated
pub mod Kept
pub mod Progress
pub mod Promises
pub mod Unharmed
