pub mod Posts
pub mod Data
