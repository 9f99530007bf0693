pub mod Searched
pub mod ByNumber
pub mod Kept
pub mod Lowest
pub mod Live
