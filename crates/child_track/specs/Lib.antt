pub mod NodeSet
pub mod Token
pub mod Track
pub mod TrackFields
