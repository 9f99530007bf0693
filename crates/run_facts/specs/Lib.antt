pub mod Cancels
pub mod Inboxes
