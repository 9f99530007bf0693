pub mod Filters
pub mod Groups
pub mod Lists
pub mod Objects
