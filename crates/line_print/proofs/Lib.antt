pub mod EndLemmas
pub mod FoundLemmas
pub mod KnownLemmas
pub mod PassLemmas
pub mod PrintLemmas
pub mod TurnLemmas
pub mod WholeLemmas
