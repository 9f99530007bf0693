pub mod ListLemmas
pub mod Looping
pub mod TaskParts
pub mod TopLemmas
pub mod TreeLemmas
pub mod Ways
pub mod WholeLemmas
