pub mod Command
pub mod Plan
pub mod Takes
