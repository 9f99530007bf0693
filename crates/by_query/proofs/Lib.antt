pub mod OverlayLemmas
pub mod ChangeLemmas
pub mod RateLemmas
