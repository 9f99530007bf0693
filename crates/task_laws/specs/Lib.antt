pub mod DeepExample
pub mod Example
