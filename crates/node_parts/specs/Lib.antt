pub mod Notices
pub mod Opening
pub mod Running
pub mod Starting
