pub mod Sending
pub mod Works
pub mod Standing
pub mod Controlling
mod OfControl
pub mod Posting
pub mod WorkerSends
