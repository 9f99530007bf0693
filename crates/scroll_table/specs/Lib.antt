pub mod Contexts
pub mod Ends
pub mod Moments
pub mod Owners
pub mod Versions
