pub mod Shapes
pub mod Sizes
pub mod Each
pub mod Nodes
pub mod Entries
pub mod FaultsTold
pub mod Windows
