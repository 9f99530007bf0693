pub mod Ends
pub mod Errors
pub mod Lines
pub mod Looked
pub mod Replies
pub mod RunLines
