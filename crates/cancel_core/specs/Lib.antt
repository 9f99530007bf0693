pub mod Acts
pub mod Cancellation
pub mod Cancellations
pub mod Fields
pub mod Listings
pub mod Stage
