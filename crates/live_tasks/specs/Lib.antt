pub mod Order
pub mod Live
pub mod Ties
pub mod Entries
pub mod Answering
pub mod Turning
pub mod Chains
pub mod Registers
