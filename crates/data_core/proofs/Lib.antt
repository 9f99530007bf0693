pub mod Good
pub mod Shards
pub mod Sound
pub mod Beginning
pub mod News
pub mod NewsOfRun
pub mod Fed
pub mod Cases
pub mod Turned
pub mod Listed
pub mod Kept
pub mod Admitted
pub mod Working
pub mod WorkingOn
pub mod Stepping
pub mod Ending
pub mod Planning
pub mod Asking
mod ShardSends
mod SearchSends
mod ReindexSends
mod WorkSends
mod LiveSends
mod ScrollSends
pub mod CoreSends
