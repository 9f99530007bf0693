pub mod NumberLemmas
pub mod ReadingLaws
pub mod SourceLemmas
