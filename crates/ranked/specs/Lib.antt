pub mod Pieces
pub mod Ranks
