pub mod Cores
pub mod Plans
pub mod Admitting
pub mod Letters
pub mod Turns
pub mod Steps
