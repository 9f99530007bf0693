mod Ascending
mod Counted
pub mod HitKeys
mod Pieces
