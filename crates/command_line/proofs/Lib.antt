pub mod NumbersRead
pub mod TakenMatches
pub mod TakenWords
