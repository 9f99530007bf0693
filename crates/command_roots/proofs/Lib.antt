pub mod AskLemmas
pub mod BatchLemmas
pub mod DestLemmas
