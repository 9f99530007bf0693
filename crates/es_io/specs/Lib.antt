-- What the calls to the outside are said to do.
pub mod Bytes
pub mod Count
pub mod Memory
pub mod ReadAll
pub mod Worker
