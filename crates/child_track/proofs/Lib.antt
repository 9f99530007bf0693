pub mod NodeLemmas
pub mod Awaited
pub mod Gathered
pub mod Answered
