pub mod Keys
pub mod Leaving
pub mod Changes
pub mod Seated
pub mod Belonging
pub mod Remaining
pub mod Chaining
pub mod Claimed
